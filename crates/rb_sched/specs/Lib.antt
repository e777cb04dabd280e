pub mod Schedule
pub mod Lines
pub mod Rounds
pub mod Walk
pub mod Laws
