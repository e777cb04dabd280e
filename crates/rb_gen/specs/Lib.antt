-- What is said of the generator.
pub mod InMemory
pub mod Given
pub mod Writes
pub mod Laws
pub mod InProcesses
