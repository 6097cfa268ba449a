-- Demand 3: what a run's events and answers tell, and the claim about whole runs.
pub mod History
pub mod Demand3
pub mod Entries
pub mod Claims
pub mod Joined
pub mod Called
pub mod Trials
pub mod EntryTrials
pub mod NameTrials
pub mod Survival
