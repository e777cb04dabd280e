-- A present process steps in the plain run as it does in the run.
pub mod PresentProcess
pub mod SameRoom
pub mod SameMessagesSeen
pub mod SameMessageThere
pub mod SameStep
pub mod TakenWasSent
pub mod StepKeepsErasure
pub mod TurnOfOneProcess
