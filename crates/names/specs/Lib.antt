-- Which rules a step is about, and the names of their bodies: what private functions of the checker cite.
pub mod ByName
pub mod Minimal
pub mod Queries
