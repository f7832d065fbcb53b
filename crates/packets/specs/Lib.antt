-- Case packets: a program's table and a proof in one sequence of bytes, with one form for each pair.
pub mod Bytes
pub mod Packets
pub mod Parts
pub mod Writes
pub mod Claims
pub mod Examples
