-- What is said of a draft.
pub mod Output
pub mod Emits
pub mod Lookups
pub mod Channels
