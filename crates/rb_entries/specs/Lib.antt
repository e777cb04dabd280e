-- What is known at an address.
pub mod Parts
pub mod Join
