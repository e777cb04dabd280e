-- Each process of a run of sound code is placed: it stands in the table, and its levels are nested and are those of a member's blocks.
-- What an instruction behind a `turn` asks of its process, by the table.
pub mod Behind
-- Levels that come from placed ones, and one more that is entered.
pub mod LikeLevels
pub mod NewLevel
-- What a process that wants something is to have.
pub mod Wants
-- Every turn keeps it, and it holds at the opening.
pub mod Kept
pub mod Opening
