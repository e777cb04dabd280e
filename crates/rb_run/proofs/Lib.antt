-- Lemmas of runs.
-- Every process of a run has the words of its variables, and names that fit a code fit the ending of its runs.
pub mod OwnWords
pub mod EndingFits
pub mod NamesFit
-- What is written, turn by turn, and in whole.
pub mod Completes
pub mod TurnsTaken
pub mod RunWritten
pub mod AsMeant
-- Lines that are counted, and records that are written.
pub mod Counted
pub mod CountedUp
pub mod Gathered
pub mod Recorded
pub mod TurnsUnseen
pub mod TurnsWork
pub mod Rested
pub mod Survived
pub mod NoLines
-- Cursors count what was sent and taken, in the present and in copies.
pub mod ReceiptsStand
