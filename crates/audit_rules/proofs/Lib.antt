-- The plain engine agrees with the rules.
pub mod Free
pub mod Picked
pub mod Kin
pub mod Locking
pub mod Handed
pub mod Ends
pub mod Learns
pub mod Blocks
pub mod Agrees
pub mod Audits
