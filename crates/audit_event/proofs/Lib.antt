-- The arguments of the events.
pub mod Still
pub mod Begins
pub mod Owns
pub mod Ends
pub mod Aborts
pub mod Commits
pub mod Recovers
pub mod Refuses
pub mod Bounds
pub mod Dones
