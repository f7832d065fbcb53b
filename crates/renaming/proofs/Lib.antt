-- The laws that the proofs share, and that the proofs of crate splits cite.
pub mod Written
pub mod Agrees
pub mod Walk
pub mod SameNames
pub mod Positions
pub mod Renamed
