-- Nesting: what is left of a nested program's text keeps the rules, through every step.
pub mod InsideOut
-- The variables that lines name.
pub mod NamedVariables
-- The laws of the meaning.
-- What a turn rejects and tells: few events, whom a rejection leaves alone, and that members go together.
pub mod Nesting
pub mod Knowing
pub mod Trees
