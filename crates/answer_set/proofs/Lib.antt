-- The laws that the proofs share.
pub mod Marking
pub mod Tested
pub mod LeastModels
pub mod Answered
pub mod Service
pub mod Shown
pub mod Broken
pub mod Giving
