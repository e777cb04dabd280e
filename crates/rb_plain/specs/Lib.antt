pub mod Members
pub mod Turns
pub mod Played
pub mod Stuck
