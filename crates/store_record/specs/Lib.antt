-- A fresh store; the age of a record.
pub mod Laying
pub mod Ages
