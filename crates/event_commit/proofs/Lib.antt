-- The arguments of this crate.
pub mod Tops
pub mod Commits
