-- Lemmas of a walk over the tree.
pub mod Binding
pub mod Calls
pub mod Innermost
pub mod Places
pub mod Spans
pub mod Lookups
pub mod Words
pub mod Judged
pub mod Changes
pub mod Lines
pub mod Traps
pub mod Starting
pub mod Skipped
pub mod Arguments
