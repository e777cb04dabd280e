-- Lemmas of the code of accepted sources. First that the expressions of an accepted source find room for their operands.
pub mod Operands
-- The code of a tree, walked: what stands at each address, and that each is come to.
pub mod Onward
pub mod Walking
-- Code that stands for an accepted tree is sound: its lists, its table, and how its members join their conversations.
pub mod Forming
pub mod OwnTable
pub mod ReachedTable
pub mod TableOnward
pub mod AcceptedCode
pub mod Joining
pub mod SoundCode
pub mod MainBodies
-- The same of sources.
pub mod AcceptedSources
