pub mod InTurn
pub mod Parts
pub mod Walked
