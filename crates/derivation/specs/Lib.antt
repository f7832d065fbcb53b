-- What ASP-DRUPE means under document 01: propagation, the three things the steps work on, loops, the seven steps.
pub mod Propagation
pub mod States
pub mod Loops
pub mod Steps
pub mod Claims
