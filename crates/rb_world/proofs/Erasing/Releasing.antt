-- Lines are released, and survivors grow.
pub mod SurvivorsGrow
pub mod ReleasedLines
pub mod SameLinesReleased
pub mod ReleaseKeepsErasure
