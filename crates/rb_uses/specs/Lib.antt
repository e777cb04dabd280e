-- What is kept of the uses, channels and conversations of a program, and what the rules of nesting ask of it.
pub mod Summary
pub mod Memory
pub mod Members
