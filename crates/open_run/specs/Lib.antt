-- What a run promises.
pub mod Running
