-- Trials: the table of edition 1 with its rows by subject; portions, states, soundness, waiting transactions.
pub mod PreparedTrials
pub mod WordTrials
pub mod PageTrials
pub mod Trials
pub mod PortionTrials
pub mod WaitingTrials
pub mod StateTrials
pub mod SoundTrials
