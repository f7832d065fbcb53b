-- Every program has an answer set or a derivation; when lines are short enough, and when none can be. What carries the lines or the set that is found
-- is `abbrev`, so that Examples.antt computes with `complete`.
pub mod Components
pub mod Totals
pub mod Leaves
pub mod Accepting
pub mod Naming
pub mod Deriving
pub mod Complete
pub mod Limits
pub mod Exact
pub mod AsRead
pub mod Cycles
pub mod Examples
