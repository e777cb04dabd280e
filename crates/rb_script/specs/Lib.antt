pub mod Script
pub mod Walk
pub mod Shown
