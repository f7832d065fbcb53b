-- What the proofs of the splitting share.
pub mod Merging
pub mod Below
pub mod Adding
pub mod Emitted
pub mod RuleTexts
pub mod Groups
