-- Steps without question 23, programs as a reader leaves them, and the claim that every program without an answer set is refuted.
pub mod Claims
pub mod Examples
