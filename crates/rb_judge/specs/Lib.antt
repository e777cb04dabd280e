-- The verdict on a source, and what holds of every accepted one.
pub mod Verdict
pub mod Judged
pub mod Laws
pub mod HasAlternates
