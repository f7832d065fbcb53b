-- How a long sum is split into short ones, and what is claimed of it.
pub mod Plans
pub mod Levels
pub mod Extension
pub mod Claims
