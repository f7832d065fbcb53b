-- What is written of a half's lines, what stands of them, and the second half's new names: what private functions of crate splits cite.
pub mod Writing
pub mod Standing
pub mod Renames
