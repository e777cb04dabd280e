-- What is said of the machine.
pub mod Known
pub mod Worlds
pub mod Cascade
pub mod Channels
pub mod AtWork
pub mod Moves
pub mod Telling
pub mod Reading
pub mod Machine
pub mod Rising
