-- Lemmas of code.
pub mod Listed
pub mod WholeRuns
pub mod Executing
pub mod Looping
pub mod Reaching
pub mod Tables
pub mod Agreeing
pub mod Placing
pub mod InWords
pub mod Alike
