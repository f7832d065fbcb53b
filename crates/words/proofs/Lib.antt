-- The laws that the proofs share.
pub mod Laws
pub mod Lists
pub mod Literals
pub mod Parts
pub mod Places
pub mod Segments
pub mod Sorting
pub mod Tops
pub mod Words
pub mod Ascending
pub mod Blanks
pub mod Descending
