pub mod Turns
pub mod Head
pub mod Heads
pub mod Trace
pub mod Meant
pub mod Laws
pub mod Rows
