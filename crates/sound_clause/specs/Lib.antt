-- What it is to decide a statement; the clauses of soundness.
pub mod Decides
pub mod Clauses
