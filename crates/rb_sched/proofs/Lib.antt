pub mod Cuts
pub mod TurnsLeft
pub mod LineTurns
pub mod Walk
