-- Cuts of a world, and the plain worlds that show them.
pub mod Cuts
pub mod ErasureInvariant
pub mod ShownWorlds
pub mod ShownOlder
pub mod ConsistentCuts
pub mod MailKept
pub mod OneProcessChanged
pub mod OtherProcessesInCuts
pub mod CutsAlike
pub mod CutsWhenPutBack
pub mod TestLinesInCuts
