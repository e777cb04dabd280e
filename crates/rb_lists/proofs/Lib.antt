-- Lemmas.
pub mod Mapped
pub mod Each
pub mod Differing
pub mod Counted
pub mod Listed
pub mod WholeLists
