-- Related kinds of process state: they turn alike, and tell the same.
pub mod Simulation
pub mod ProcessesMeet
pub mod ChannelsMeet
pub mod MarksMeet
pub mod CascadeMeets
pub mod StepsMeetWorlds
pub mod TurnsMeet
pub mod RunsMeet
pub mod PlainRunsMeet
pub mod Image
pub mod ImageRuns
pub mod Reread
pub mod Instances
