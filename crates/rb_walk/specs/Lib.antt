-- What is said of a walk over the tree.
pub mod Slots
pub mod Counters
pub mod Items
pub mod Comes
pub mod Holding
pub mod States
