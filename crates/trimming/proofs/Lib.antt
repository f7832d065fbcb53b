-- What trimming leaves.
pub mod Passes
pub mod Proofs
pub mod Newlines
pub mod Turns
pub mod Answers
pub mod OverTexts
pub mod Examples
