-- The rows of the form whose pages can tear.
pub mod TornRows
pub mod TornTrials
pub mod PairTrials
