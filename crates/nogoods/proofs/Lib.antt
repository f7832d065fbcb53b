-- The laws that the proofs share.
pub mod Live
pub mod Recorded
pub mod Stored
pub mod Closing
pub mod Literals
pub mod Defined
pub mod Indexing
