pub mod Tree
pub mod Append
pub mod Plain
pub mod Numbered
