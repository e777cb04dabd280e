-- What the tokens ahead are, and those that a cursor gives.
pub mod Spelled
pub mod Takes
pub mod Ahead
-- How far the code has read a part, by what stands first.
pub mod Reaching
pub mod Pairs
pub mod Begun
pub mod Receipts
pub mod Made
pub mod Pushing
-- The machine: what it accepts is derived, and what is derived it accepts.
-- What begins a text goes on to its end.
-- The names and the recovery blocks of a tree, in the order of the text.
-- How deep a tree may be.
pub mod Accepting
pub mod Stopping
pub mod Numbering
pub mod Depth
