-- The starred examples of document 01, stated.
pub mod Examples
