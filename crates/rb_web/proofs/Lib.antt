pub mod Three
pub mod Parts
pub mod Pairs
pub mod Moved
pub mod Verdicts
