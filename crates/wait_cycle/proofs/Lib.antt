-- Laws that the proofs of this crate cite.
pub mod Cycling
pub mod Walking
