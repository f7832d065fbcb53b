-- Laws of proof lines, of their texts, and of the rows that a line is read into.
pub mod Lines
pub mod Texts
pub mod Rows
