-- The arguments of this crate.
pub mod Laying
pub mod Ages
