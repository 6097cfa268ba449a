-- Every row of edition 2 holds, by computing.
pub mod Edition2Trials
