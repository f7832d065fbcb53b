-- What the proofs of joining and chaining share.
pub mod Partners
pub mod Joins
pub mod Linked
pub mod Chained
