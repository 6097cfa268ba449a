-- What is lent as a state.
pub mod Portion
