pub mod Numbers
-- Proof lines: the letters' signs, and questions 21 to 25; the steps of a text and the text of steps.
pub mod Lines
pub mod Rows
pub mod Texts
