-- Every argument about depot and gateway.
pub mod Table
pub mod Follows
pub mod Yes
pub mod Agreement
pub mod Needed
