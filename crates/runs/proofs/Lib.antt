-- What holds of the course of a proof: line by line, what is live after each step, and the loop over the lines.
pub mod Lines
pub mod Live
pub mod Courses
pub mod Lending
