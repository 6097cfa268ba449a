-- The arguments of this crate.
pub mod Sizes
pub mod Lengths
