-- What the auditor's tables stand for.
pub mod Tables
