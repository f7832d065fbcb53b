-- The whole check, from two texts and two lengths to a verdict and every word; what is claimed of it; the line that says its
-- verdict.
pub mod Check
pub mod Claims
pub mod Report
