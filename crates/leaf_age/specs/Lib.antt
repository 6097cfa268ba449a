-- What an age and its judgement stand for.
pub mod Meaning
