-- The laws that the proofs share.
pub mod Assignments
pub mod Looks
pub mod Closures
pub mod Sweeps
