-- What holds of sums that are split.
pub mod Extension
pub mod Lowest
pub mod Nodes
pub mod Split
pub mod Attained
pub mod Levels
pub mod Sorted
pub mod Formed
pub mod Examples
