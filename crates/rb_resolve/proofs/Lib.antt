pub mod Named
pub mod Placing
pub mod Visited
