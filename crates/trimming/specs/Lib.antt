-- Trimmed proofs: what is left of a list of steps, what the service leaves, and what is claimed of both.
pub mod Trims
pub mod Numbers
pub mod Service
pub mod Passing
pub mod Claims
pub mod Examples
