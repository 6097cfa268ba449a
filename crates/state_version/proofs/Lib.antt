-- The arguments about versions in the working buffer.
pub mod Walk
pub mod Seen
pub mod Lifting
