-- Erasure: what survived a run, run alone, ends the same. First what it asks of a kind; then the invariant, and that every turn keeps it.
pub mod ErasableKinds
pub mod Showing
pub mod Grounding
pub mod Stepping
pub mod Passing
pub mod GoingBack
pub mod Releasing
-- The theorems.
pub mod ErasureIsInvariant
pub mod SurvivorsRunAlone
pub mod ReceiptsStand
pub mod ErasureOfEveryKind
