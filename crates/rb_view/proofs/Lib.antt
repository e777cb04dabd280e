-- Lemmas of what a trace keeps in mind of a machine.
pub mod Filling
pub mod Changed
pub mod Back
pub mod Shapes
pub mod Asked
pub mod Kept
pub mod AtNumber
pub mod Between
pub mod Turning
pub mod Whole
pub mod AsMeant
