pub mod Kept
pub mod Asked
pub mod Ending
pub mod Called
pub mod Laws
