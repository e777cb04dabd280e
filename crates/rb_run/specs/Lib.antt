-- What is said of a run.
pub mod Running
pub mod Sources
pub mod Counting
pub mod Gathers
pub mod Surviving
pub mod Laws
