-- What the other crates mean by a word, a literal and a list of literals, the limits that they share, and chains of places by key.
pub mod Limits
pub mod Lists
pub mod Literals
pub mod Descending
