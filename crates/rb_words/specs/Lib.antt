pub mod Plain
pub mod Leaf
pub mod Given
