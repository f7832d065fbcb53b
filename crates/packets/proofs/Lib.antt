-- Laws of packets and of the bytes of numbers, and the proofs of the claims.
pub mod Littles
pub mod StepParts
pub mod RuleParts
pub mod RulesRead
pub mod Decoded
pub mod Given
pub mod Writes
pub mod Claims
pub mod Moves
pub mod Examples
