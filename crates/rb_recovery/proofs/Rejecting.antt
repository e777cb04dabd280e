-- Rejections, one after the other, from the level that is rejected outwards.
pub mod CascadeEnds
pub mod FurtherOut
pub mod LevelRejected
pub mod NextLevelOut
pub mod OneRejection
pub mod QuietProcesses
pub mod RejectedLevels
pub mod RowsKept
pub mod WhoIsInside
