-- What the splitting of a program's long sums answers and leaves.
pub mod Numbers
pub mod Ordering
pub mod Program
pub mod Props
pub mod Service
