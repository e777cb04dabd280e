pub mod Worlds
pub mod Moves
pub mod Taken
pub mod Causes
