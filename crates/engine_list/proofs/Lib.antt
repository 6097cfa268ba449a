-- What the loop's proofs cite of the editions.
pub mod Words
