-- The rows of edition 2.
pub mod Edition2Trials
