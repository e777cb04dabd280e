pub mod Uncounted
pub mod Moves
pub mod Turns
pub mod Stays
