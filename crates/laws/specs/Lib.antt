-- The vocabulary that rules, history and the code's contracts share.
pub mod Tests
pub mod Counting
pub mod Functions
pub mod Bytes
pub mod Bits
