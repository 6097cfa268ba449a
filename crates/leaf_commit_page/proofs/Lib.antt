-- What the proofs of this crate share.
pub mod Maps
pub mod Places
