-- What the proofs of the splitting of a program share.
pub mod Insertion
pub mod Grouping
pub mod Held
pub mod Items
pub mod InTurn
pub mod Programs
pub mod Answers
