-- The laws of lines, and what the proof of `read_line` rests on.
pub mod Lines
pub mod Table
pub mod Turns
pub mod Bridge
pub mod Decimals
pub mod Puts
pub mod Spelling
pub mod Fronts
