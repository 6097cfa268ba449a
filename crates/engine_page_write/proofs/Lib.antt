-- The arguments of this crate.
pub mod Numbered
pub mod Planned
