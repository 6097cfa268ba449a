-- Laws of the arrays and of what they stand for.
pub mod Sweep
pub mod Joined
pub mod Nested
pub mod Modes
pub mod View
pub mod Kin
