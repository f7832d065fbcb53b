-- Sets of variables as lists and as marks.
pub mod Marks
