pub mod Given
pub mod Reasons
pub mod Telling
pub mod Entrance
