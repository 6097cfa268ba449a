-- A list without prepare, decide and query has the same run with these kinds and without them.
mod PlainKinds
pub mod Steps
pub mod SameRun
