-- It holds.
pub mod Delivered
