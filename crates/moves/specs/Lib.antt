-- What the functions that move a packet to the other version come to. The services' contracts are `MovedUp` and `MovedDown` of packets.
pub mod Moves
