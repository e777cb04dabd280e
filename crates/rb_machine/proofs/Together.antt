-- Turns of the word machine: who changes, and who goes together.
pub mod Alone
pub mod MembersTogether
pub mod UndoneTurns
