-- What holds of costs, of the restriction and of the least total.
pub mod Sums
pub mod Order
pub mod Restriction
pub mod NoneBelow
pub mod OneRate
pub mod Found
pub mod Examples
