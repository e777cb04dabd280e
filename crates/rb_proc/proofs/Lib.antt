-- Lemmas of a process of the machine.
pub mod Listed
pub mod Alternates
pub mod Mailed
pub mod Texts
pub mod FewOperands
pub mod Running
pub mod Stepping
pub mod Entered
pub mod Landing
