-- The crate's laws
pub mod Room
pub mod Understood
pub mod Sweeps
pub mod Plans
pub mod Prepares
