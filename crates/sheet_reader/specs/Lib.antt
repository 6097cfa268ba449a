-- What the readers promise.
pub mod Reads
