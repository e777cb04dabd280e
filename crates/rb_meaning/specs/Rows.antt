-- Worked rows: whole programs, their turns, and the texts that the definitions come to.
pub mod Build
pub mod Blocks
pub mod Limits
pub mod Values
pub mod Messages
pub mod Conversations
pub mod Survivors
pub mod Nested
