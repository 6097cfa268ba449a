-- The arguments of the verdict.
pub mod Walks
pub mod Blank
pub mod Scanned
pub mod Busy
pub mod Ending
