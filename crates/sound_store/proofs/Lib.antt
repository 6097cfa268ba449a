-- The arguments of this crate.
pub mod Copies
pub mod Calm
