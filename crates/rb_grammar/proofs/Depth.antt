-- How deep a tree is, by its brackets.
pub mod Bounded
pub mod Deepest
pub mod Room
pub mod Counted
