-- The arguments of this crate.
pub mod Granting
