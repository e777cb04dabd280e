-- What every turn keeps: invariants of worlds and of processes.
pub mod Invariant
pub mod CascadeKeeps
pub mod Induction
pub mod PlainInduction
pub mod EachProcess
pub mod StandingFacts
pub mod AwayOnceBack
pub mod NestedSame
