-- The arguments of this crate.
pub mod Editions
pub mod Falls
