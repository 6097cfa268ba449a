-- Every row of the form whose pages can tear holds, by computing.
pub mod TornTrials
pub mod PairTrials
