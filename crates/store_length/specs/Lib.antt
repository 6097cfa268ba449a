-- When a list is refused before its first event.
pub mod Lengths
