-- An index of the rules by head atom and by body: what private functions of the checker cite.
pub mod Heads
