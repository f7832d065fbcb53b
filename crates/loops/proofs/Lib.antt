-- The laws that the proofs share.
pub mod Sums
pub mod Filling
pub mod HeadPlaces
pub mod WeightExamples
pub mod Placing
pub mod EdgeMarks
pub mod Expanded
pub mod Chained
pub mod Reaching
