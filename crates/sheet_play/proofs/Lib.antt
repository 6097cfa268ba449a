-- The list of a sheet keeps in step with the rules.
pub mod Playing
pub mod Keeping
pub mod Examples
