-- What holds of calls.
pub mod Chained
