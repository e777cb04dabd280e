-- How an environment lies in the words of a process.
pub mod Environments
pub mod LaidOut
pub mod VariablesInWords
pub mod VariablesInCalls
pub mod NamesRead
pub mod FramesPushed
pub mod Fronts
pub mod Channels
pub mod Cursors
