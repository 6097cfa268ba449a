-- What is delivered.
pub mod Delivered
