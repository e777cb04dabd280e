pub mod Undo
pub mod Copies
pub mod Regions
pub mod Arena
pub mod Merging
pub mod Chains
pub mod Inside
pub mod Laws
