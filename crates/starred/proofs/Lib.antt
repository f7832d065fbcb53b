-- The starred examples of document 01, proved.
pub mod Examples
