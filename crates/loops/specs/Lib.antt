-- What private functions of the checker cite of loops, and what the functions here promise.
pub mod Relevance
pub mod Edges
pub mod Searches
