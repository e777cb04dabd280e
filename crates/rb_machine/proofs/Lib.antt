pub mod Written
pub mod WordsKept
pub mod ReadAt
pub mod Looked
-- A load, and turns one after another.
pub mod Beginning
-- What is known of every world of a run: who stands where, with which levels, at which alternates.
pub mod Knowing
-- One turn: by what stands first, through rejections and messages, to what is released.
pub mod Turning
pub mod Passing
pub mod Releasing
-- Turns that change nothing.
pub mod Unmoved
-- What a turn costs.
pub mod Working
-- What the links lead to.
pub mod Linking
-- The laws of turns: who changes, and who goes together.
pub mod Together
