-- How often a process joins a conversation.
pub mod Counting
pub mod JoinCounts
pub mod JoinedOnce
pub mod Weights
pub mod CountedAlternates
