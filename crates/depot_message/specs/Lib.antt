-- The numbers of the depot's states, messages and replies; the gateway's vote; rows for both.
pub mod Codes
pub mod Votes
pub mod DepotTrials
