-- The arguments of this crate.
pub mod Numbers
pub mod Lengths
pub mod ByKind
