-- Ground programs: what a rule is, how a table holds rules, and how a text is read, question by question.
pub mod Numbers
pub mod Rules
pub mod Reading
pub mod Text
pub mod Turns
pub mod Tables
pub mod AnswerSets
pub mod Claims
