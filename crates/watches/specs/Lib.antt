-- What the functions promise, which is little: bounds and an end.
pub mod Small
