-- The steps over arrays and store: what is stored after each, and what the functions cite.
pub mod After
pub mod Held
