-- Lemmas of the machine. First small facts of lists, words and worlds.
pub mod Changed
pub mod InOrder
pub mod SeenWorlds
-- A load, and turns one after another.
pub mod Beginning
-- One turn: by what stands first, through rejections and messages, to what is released.
pub mod Turning
pub mod Rejecting
pub mod Passing
pub mod Releasing
-- What a turn costs.
pub mod Working
-- What the links lead to.
pub mod Linking
