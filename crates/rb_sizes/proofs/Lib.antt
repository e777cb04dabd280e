-- Code and images against their source: what a tree weighs, what its code takes, and both together.
pub mod Weighing
pub mod Spending
pub mod Short
-- The ranges of numbers.
pub mod Ranging
pub mod Counts
