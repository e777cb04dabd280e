-- Loops over counters: where they end, and that a turn ends with them.
pub mod FallingNumbers
pub mod OpenLoops
pub mod LoopSteps
pub mod LoopEnds
pub mod CounterSteps
