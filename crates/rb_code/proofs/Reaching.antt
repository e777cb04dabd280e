-- Which addresses are reached.
pub mod Spreading
pub mod ReachedDecided
