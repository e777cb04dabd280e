-- What is said of the bench of a turn.
pub mod Comparing
pub mod Counting
pub mod LineSeen
pub mod Pieces
pub mod Outcomes
