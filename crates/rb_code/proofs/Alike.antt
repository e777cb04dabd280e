-- Which code stands for a tree, and that it is one.
pub mod AlikeCode
pub mod AlikeForms
pub mod AlikeParts
pub mod AlikeProcesses
pub mod AlikeStatements
pub mod OneCode
pub mod OneSlot
pub mod SameTemplates
