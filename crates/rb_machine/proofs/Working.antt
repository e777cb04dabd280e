pub mod MoveWork
pub mod ReleaseWork
pub mod StepWork
pub mod TurnWork
