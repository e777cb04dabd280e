-- Turns that change nothing: of who is done, and of who waits with no level open.
pub mod MovesUnmoved
pub mod TurnsUnmoved
pub mod StillBare
pub mod Noted
pub mod Tallied
pub mod RestedTurns
