-- What the set test answers, and what that says of answer sets.
pub mod Numbers
pub mod SetTest
pub mod Private
pub mod Claims
