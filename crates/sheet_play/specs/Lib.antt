-- What is answered where the list of a sheet is played.
pub mod Plays
