-- The arguments of this crate.
pub mod Begins
