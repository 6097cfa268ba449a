-- What the contracts of this crate cite.
pub mod Heard
pub mod Layout
