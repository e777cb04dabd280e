-- Definitions.
pub mod Groups
pub mod Marks
pub mod Naming
pub mod Variables
pub mod Lists
pub mod Parts
