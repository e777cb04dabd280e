pub mod Trial
pub mod Pieces
