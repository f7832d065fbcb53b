-- What a byte, a number and a line are: one definition for the program reader and the proof-line reader.
pub mod Bytes
pub mod Classes
pub mod Decimals
pub mod Line
pub mod Scanned
pub mod Scan
pub mod Writing
pub mod Strings
