-- What the proofs of this crate share.
pub mod Tree
pub mod Locks
pub mod Beneath
pub mod Sole
pub mod Whole
pub mod Unique
