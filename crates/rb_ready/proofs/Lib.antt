-- What the answer of a process tells of it.
pub mod Wanting
-- The words that its step names.
pub mod Naming
-- So what it is ready for.
pub mod Readying
