-- The table's entries, votes, and that they are the agreement's replies.
pub mod Entries
pub mod Votes
pub mod Replies
pub mod DepotTrials
