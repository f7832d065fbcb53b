-- What the functions say of lists of sums and of rules' lines.
pub mod Lists
pub mod Emitting
