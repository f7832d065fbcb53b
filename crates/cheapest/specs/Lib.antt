-- What the service that certifies a cheapest answer set leaves, and what is claimed of it.
pub mod Numbers
pub mod Service
pub mod Private
pub mod Claims
pub mod Examples
pub mod OneRateVerdicts
pub mod OneRateExamples
