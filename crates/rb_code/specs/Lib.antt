-- Code: what it is, how it is listed, which code stands for a tree, the machine that executes it with whole copies, and sound code.
pub mod Instructions
pub mod WordMachine
pub mod SoundCode
pub mod Agreement
