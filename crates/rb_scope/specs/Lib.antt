-- What is said of scopes: what a name means, what the rules ask at each site of a tree, and the first fault.
pub mod FirstFault
pub mod Scopes
pub mod Sites
pub mod Rules
pub mod Slots
pub mod Resolved
pub mod Laws
pub mod Finding
pub mod Memory
pub mod Frames
pub mod InFrames
pub mod Limits
pub mod Spelled
