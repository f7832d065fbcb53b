-- The store: the words that hold the nogoods, live and dead; and what the private functions of the store cite.
pub mod Store
pub mod Keeps
pub mod Records
pub mod Moves
pub mod Finds
pub mod Index
pub mod Definitions
