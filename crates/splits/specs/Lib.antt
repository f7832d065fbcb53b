-- What the service that merges two halves leaves, and what is claimed of it.
pub mod Numbers
pub mod Service
pub mod Halves
pub mod Joined
pub mod Judging
pub mod Claims
pub mod Examples
