-- Edition 1 without prepare, decide and query, and the claim about it.
pub mod Without
