-- What a tree weighs: how many bytes its tokens have at least.
pub mod Numbers
pub mod Sizes
pub mod Weights
pub mod Spelled
pub mod Derived
