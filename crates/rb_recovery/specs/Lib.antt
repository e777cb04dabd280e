-- What is said of the machine.
pub mod Links
pub mod Linked
pub mod Known
pub mod Worlds
pub mod Cascade
pub mod Rejections
pub mod Channels
pub mod Parts
pub mod Innermost
pub mod TestLines
pub mod Work
pub mod Reading
pub mod Rising
pub mod Survivors
