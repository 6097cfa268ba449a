-- The crate's laws
pub mod Phases
