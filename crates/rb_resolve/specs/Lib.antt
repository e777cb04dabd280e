-- What spots in memory stand for, on the walk over a tree.
pub mod Memory
