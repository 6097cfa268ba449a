-- The page writes of an event, the copy writes that they are where pages tear, a device that programs page writes one by one, and laying down.
pub mod Plan
pub mod Device
pub mod Laying
pub mod CopyWrites
pub mod Asked
pub mod After
