-- The claims over trees.
pub mod OverTrees
pub mod OneTree
pub mod Constraints
pub mod Subtrees
pub mod Only
pub mod Outcomes
pub mod Answers
pub mod Roots
pub mod Examples
