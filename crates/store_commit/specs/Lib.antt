-- The crate's definitions
pub mod Phase
