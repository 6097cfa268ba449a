-- The arguments of this crate.
pub mod Steps
pub mod Aborts
