-- What a turn comes to, with all that is told of it, and that this is not too much.
pub mod Outcomes
pub mod FewEvents
-- Where levels of conversations stand, and what a cascade of rejections comes to.
pub mod PlaceFacts
pub mod Cascade
pub mod CascadeSteps
pub mod CascadeEnds
-- What becomes of the levels of a conversation becomes of all that are inside.
pub mod Together
pub mod CountedTurns
pub mod CascadeTogether
pub mod RejectTogether
pub mod PassTogether
pub mod LineTogether
pub mod TurnTogether
pub mod TurnTold
pub mod StaysInside
pub mod RejectionsTold
-- All worlds of runs are such worlds.
pub mod OrderedRuns
-- Each open level of a conversation tries its present alternate.
pub mod PresentTalks
pub mod PresentLevels
pub mod PresentKept
