pub mod Escape
pub mod Page
pub mod Rows
pub mod Told
