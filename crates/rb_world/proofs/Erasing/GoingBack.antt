-- Turns of which nothing is kept, and who fails.
pub mod PlacesGoneBackTo
pub mod TurnsNotKept
pub mod BreakingKeepsErasure
pub mod FailureKeepsErasure
pub mod WhoFails
pub mod NoLevelNoLine
