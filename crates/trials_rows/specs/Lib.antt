-- What a row of the trials says, and the rows that hold in every edition.
pub mod Rows
pub mod CommonTrials
pub mod EdgeTrials
