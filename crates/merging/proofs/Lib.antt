-- The merged proof is accepted, of two halves and of a tree.
pub mod Propagates
pub mod Lines
pub mod Relation
pub mod Simulation
pub mod Runs
pub mod Renaming
pub mod Merged
pub mod Sized
pub mod AsWritten
pub mod Trees
pub mod Examples
