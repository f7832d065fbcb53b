-- What the service that merges a tree of splits leaves, and what is claimed of it.
pub mod Service
pub mod Claims
pub mod Sides
pub mod Examples
