-- Turns that are idle or wait, in worlds that are alike.
pub mod Still
-- In which worlds no line waits to be released.
pub mod Freed
pub mod WordsFreed
-- Which turns change more than turns used, and so what is told of a tree's run.
pub mod Moving
pub mod AsTold
-- How the code of a source stands, and how its tree does.
pub mod Meets
pub mod AsMeant
-- What a machine tells of it.
pub mod Surveyed
pub mod Waiting
pub mod Told
