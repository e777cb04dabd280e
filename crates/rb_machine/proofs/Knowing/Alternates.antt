-- Alternates that are tried: of the levels of one process, of conversations, in every turn of a world of any kind, and of sound code.
pub mod TriedLevels
pub mod TalksKept
pub mod EnteredBlocks
pub mod AlternatesKept
pub mod AlternatesOfCode
