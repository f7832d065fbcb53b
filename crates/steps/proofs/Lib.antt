-- The laws of the steps.
pub mod Names
pub mod Loops
pub mod Tracking
pub mod Kept
pub mod Letters
pub mod Gathering
pub mod LoopSteps
pub mod Arms
pub mod Turns
