pub mod Edits
pub mod Nearest
