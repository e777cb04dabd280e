-- Sound code as a search finds it.
pub mod Cells
pub mod Meeting
pub mod Search
pub mod Found
pub mod Weight
pub mod Laws
pub mod Waiting
pub mod Watched
pub mod Joinings
