-- What the private functions of joining and chaining say.
pub mod Joining
pub mod Chaining
