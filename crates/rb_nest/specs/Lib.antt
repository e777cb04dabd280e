-- What is said of nesting: the rules that conversations and channels keep, and the first fault.
pub mod Rules
pub mod Groups
pub mod Laws
pub mod Nest
pub mod Answers
pub mod Blocks
