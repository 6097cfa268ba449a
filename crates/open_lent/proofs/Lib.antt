-- The arguments of this crate.
pub mod Portions
pub mod PageWrites
