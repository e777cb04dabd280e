-- The links of kept turns, and the survivors.
pub mod LinkedTurns
