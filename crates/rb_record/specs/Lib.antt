pub mod Record
pub mod Recorded
