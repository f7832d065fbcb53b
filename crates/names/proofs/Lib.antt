-- The laws that the proofs share.
pub mod Appended
pub mod Asked
pub mod ByRule
pub mod Called
pub mod Choosing
pub mod Outside
pub mod Usable
