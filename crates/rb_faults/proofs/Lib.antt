pub mod Long
pub mod Named
pub mod Ordering
pub mod Places
pub mod Placing
pub mod Telling
pub mod Visited
