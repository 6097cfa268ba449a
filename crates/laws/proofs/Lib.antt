-- Laws that several crates cite.
pub mod Tests
pub mod Bits
pub mod Filled
pub mod Booleans
pub mod Counting
pub mod Lowest
pub mod Those
pub mod Counts
pub mod Bytes
pub mod Updated
pub mod All
pub mod Any
pub mod Compared
