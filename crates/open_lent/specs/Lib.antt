-- The promises of a portion and of a page write.
pub mod Portions
pub mod PageWrites
