-- A device whose writes tear follows the rules.
pub mod Copies
pub mod Device
pub mod Claims
pub mod Commits
pub mod Mending
pub mod Example
pub mod AskedExample
