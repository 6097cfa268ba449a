-- What the arrays stand for, as one.
pub mod Lain
pub mod Whole
pub mod Portion
