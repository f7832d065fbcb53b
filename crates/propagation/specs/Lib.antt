-- Unit propagation over the store: what its private functions cite.
pub mod Propagate
