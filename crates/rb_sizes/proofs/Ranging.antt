-- All numbers of code lie in the ranges of an image.
pub mod Kept
pub mod Slots
pub mod Expressions
pub mod Statements
pub mod Processes
pub mod Joined
pub mod Bounds
pub mod InRanges
