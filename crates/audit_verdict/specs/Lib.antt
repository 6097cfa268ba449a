-- What the auditor answers by numbers.
pub mod Codes
