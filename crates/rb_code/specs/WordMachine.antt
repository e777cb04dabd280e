-- The machine that executes code with whole copies of words.
pub mod Workspace
pub mod Act
pub mod Turn
pub mod WordKind
pub mod WordRun
pub mod Rows
