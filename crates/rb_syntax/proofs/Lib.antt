pub mod Bridge
pub mod Append
