-- The claims over texts.
pub mod Stopping
pub mod OverTexts
pub mod Exactly
pub mod Demands
pub mod Accepting
pub mod Joining
pub mod Answers
pub mod Examples
