-- A program as text, its answer sets, what the services say of it, and which texts are read.
pub mod Page
pub mod Exact
pub mod Examples
