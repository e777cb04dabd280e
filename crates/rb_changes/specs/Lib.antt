pub mod Numbered
pub mod Shown
pub mod Noted
pub mod Changes
