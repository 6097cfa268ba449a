-- The crate's laws
pub mod Copies
pub mod Shown
pub mod Ranges
