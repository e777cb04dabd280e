-- Instructions, the lists of code, and how it is listed.
pub mod Plain
pub mod Listing
pub mod Heads
pub mod Limits
pub mod Variables
