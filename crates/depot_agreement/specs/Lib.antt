-- The depot's table, what gateway and depot tell each other, and the claim that they agree.
pub mod Depot
pub mod Messages
pub mod Agreement
