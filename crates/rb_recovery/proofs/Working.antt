-- The ticks of a turn.
pub mod LineWork
pub mod UndoingWork
