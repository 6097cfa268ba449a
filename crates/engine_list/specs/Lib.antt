-- The words of a list.
pub mod Words
