-- What holds of the verdict on a cheapest answer set.
pub mod Words
pub mod Answers
pub mod Verdicts
pub mod Examples
pub mod OneRateVerdicts
pub mod OneRateExamples
