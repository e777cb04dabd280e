-- Lemmas of the bench of a turn.
pub mod Tops
pub mod Joins
