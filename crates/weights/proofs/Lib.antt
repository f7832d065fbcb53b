-- The laws that the proofs share.
pub mod Sublists
pub mod Minimal
pub mod Reached
pub mod Reordered
pub mod Completing
pub mod Matching
pub mod Merging
pub mod Examples
