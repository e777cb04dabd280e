-- One turn of the parts, by what stands first in the process.
pub mod Acting
pub mod Entering
pub mod Entered
pub mod TakenSteps
pub mod TurnsTaken
pub mod TurnOfParts
pub mod StepTaken
pub mod ReadyFor
pub mod StepFacts
pub mod StepLinks
pub mod Ended
