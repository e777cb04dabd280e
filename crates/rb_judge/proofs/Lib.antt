-- The numbers of recovery blocks, part by part.
pub mod PartsWithoutBlocks
pub mod BlocksInOrder
-- The numbers of names.
pub mod Hits
pub mod NamesAtSites
pub mod NamesInTrees
pub mod OwnNumbers
-- How names and texts are spelled.
pub mod TokensSpelled
pub mod SourceEditions
pub mod Spelling
-- Verdicts, and what holds of accepted sources.
pub mod Verdicts
pub mod Accepted
pub mod Stages
-- The alternates of recovery blocks.
pub mod Alternates
