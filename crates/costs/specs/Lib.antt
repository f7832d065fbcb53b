-- The cost of a set, the program restricted to lower costs, the least total, and what is claimed of them.
pub mod Costs
pub mod Claims
pub mod OneRate
pub mod Examples
