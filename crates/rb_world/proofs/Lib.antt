-- Lemmas over every kind of process state. First what is known of a process in its turn, and small facts.
pub mod TurnFacts
pub mod ListFacts
pub mod LevelFacts
pub mod LastLevels
-- Induction over turns: the laws of an invariant, and that they keep it; invariants of each process alone; plain runs.
pub mod Keeping
-- Related kinds: the laws, and that related worlds stay related and tell the same; images, where one side is a function of the other.
pub mod Relating
-- Erasure: what survived a run, run alone, ends the same.
pub mod Erasing
-- The slots of channels.
pub mod Slots
-- Rejections stay inside, members go together, and no turn tells too much.
pub mod Members
