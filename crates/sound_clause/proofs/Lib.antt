-- Laws of tests that decide statements.
pub mod Decides
pub mod Words
pub mod Clauses
