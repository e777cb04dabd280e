-- The laws of every kind of process state, for trees.
pub mod TreeParts
pub mod TreeErasable
pub mod TreeErasure
pub mod TreeLaws
pub mod TreeSlots
pub mod MailOfSteps
pub mod StepsChangeMail
pub mod ErasedText
