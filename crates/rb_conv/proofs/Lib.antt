pub mod ParentSteps
pub mod Places
pub mod EmptyBelow
pub mod TalksAfterCalls
pub mod WhoIsInside
pub mod AllStand
