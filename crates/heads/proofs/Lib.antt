-- The laws that the proofs share.
pub mod Bodies
pub mod Entering
pub mod Externals
pub mod JustNames
pub mod Starts
pub mod Walks
