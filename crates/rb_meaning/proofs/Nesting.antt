-- What the rules of nesting give, in every turn of a nested program.
pub mod NestedProgram
pub mod RulesLeft
pub mod StepsKeepRules
pub mod JoinsWell
pub mod ChannelEnds
pub mod LevelsNest
pub mod WorldsAreOrdered
pub mod RecoveryPoints
pub mod StartsAndEntries
