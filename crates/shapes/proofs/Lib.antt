-- What a walk over the numbers finds.
pub mod Steps
