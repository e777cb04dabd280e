-- What the machine accepts is derived, and what is derived it accepts.
pub mod Running
pub mod Accepted
pub mod Sound
pub mod StatementsSound
pub mod ProgramSound
pub mod Complete
pub mod Opens
pub mod Ends
pub mod Forms
pub mod Starts
