-- Two proofs, each for the program with one more constraint, as one proof for the program alone; and a tree of such splits.
pub mod Merge
pub mod Claims
pub mod Trees
pub mod Examples
