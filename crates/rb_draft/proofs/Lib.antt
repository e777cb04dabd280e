-- Lemmas of drafts.
pub mod Growing
pub mod Emits
pub mod FrameWords
