-- Document 01 as definitions, one module a heading, in its order.
pub mod Geometry
pub mod Store
pub mod Event
pub mod State
pub mod Locks
pub mod Versions
pub mod Commit
pub mod Form
pub mod Pairs
pub mod Step
pub mod Run
pub mod Age
pub mod Sound
pub mod Waiting
pub mod Portion
pub mod Calls
pub mod Editions
