-- An answer as a code and numbers, and what the fourteen functions for C return and leave.
pub mod Codes
pub mod Services
