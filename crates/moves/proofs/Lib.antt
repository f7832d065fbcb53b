-- Laws that the functions of moves cite.
pub mod Moving
pub mod Answers
