-- A tree of splits as it is lent.
pub mod Tree
pub mod Walks
