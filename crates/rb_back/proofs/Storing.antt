-- Where turns store.
pub mod Bounds
pub mod WordStays
pub mod WordsKept
pub mod StepStores
pub mod TurnStores
pub mod Gathered
