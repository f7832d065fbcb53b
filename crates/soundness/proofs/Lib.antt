-- A program's text is read as no other program, the order of heads and literals does not matter, and what follows.
pub mod Once
pub mod Orders
pub mod Direct
pub mod Printed
pub mod Split
pub mod Cheapest
pub mod Numbers
pub mod Returned
pub mod Exact
pub mod Examples
