-- What is known of every world of a run of sound code.
pub mod BrokenTalks
pub mod CountedKept
pub mod CountedTurns
pub mod CountsBelow
pub mod FirstHeld
pub mod HeldWhileSettling
pub mod KnownHere
pub mod KnownNumbers
pub mod KnownTurns
pub mod OrderedRuns
pub mod Rising
pub mod RunsRise
pub mod StepsRise
pub mod Sizes
pub mod Placed
pub mod Alternates
