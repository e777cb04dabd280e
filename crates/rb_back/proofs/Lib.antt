-- Lemmas of sessions. Pictures, and how changes lead from one to another and back.
pub mod Mixed
pub mod Pictures
pub mod Noted
pub mod Progress
pub mod Alike
-- What a turn leaves as it is.
pub mod OthersStay
pub mod Storing
-- What a session keeps.
pub mod Sizes
pub mod Kept
-- What is written.
pub mod TextShown
pub mod AsMeant
-- Laws.
pub mod Reached
