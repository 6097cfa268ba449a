-- What the arrays stand for, and their changes.
pub mod View
pub mod Changes
pub mod Kin
