-- The auditor's page writes are the rules'.
pub mod Settled
pub mod Rows
pub mod Halves
pub mod Ledgers
pub mod Versions
