pub mod Reached
pub mod ReachedLinks
