-- The lists of code and the conversations of an accepted tree.
pub mod FormedCode
pub mod NamedCode
pub mod FoundNames
pub mod Groups
pub mod NestingKept
pub mod PlacedUses
pub mod Numbers
