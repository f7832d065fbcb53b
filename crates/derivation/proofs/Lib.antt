-- What holds of the steps: propagation as computed, and that an accepted proof leaves no answer set.
pub mod Rounds
pub mod Closure
pub mod Loops
pub mod Valuations
pub mod SameSet
pub mod Questions
pub mod Invariant
pub mod Outcomes
pub mod Nogoods
pub mod Sustaining
pub mod Sound
pub mod AsWritten
