-- The course of a proof, from its text and the store's length to a refusal or the state that is left; what is claimed of it. Held is what
-- private functions cite, and no reader of a public contract needs it.
pub mod Course
pub mod Claims
pub mod Held
