-- Sound code, and who stands in its table.
pub mod Sound
pub mod Reached
pub mod WellFormed
pub mod Safe
pub mod Stands
pub mod StandsInRuns
pub mod SoundLaws
pub mod Stays
pub mod SoundRows
pub mod ReachedDecided
