-- The arguments about ages.
pub mod Laws
