-- The arguments that the events share.
pub mod Rules
pub mod Steps
pub mod Ends
pub mod Parameters
pub mod Parents
pub mod Reserves
pub mod Playing
