-- The arguments that several functions share.
pub mod Places
pub mod Change
pub mod Matching
pub mod Endings
