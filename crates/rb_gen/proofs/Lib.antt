-- Lemmas of the generator.
pub mod Rows
pub mod StatementRows
pub mod RecoveryRows
pub mod GivenParts
pub mod ProcessRows
pub mod LinkSteps
pub mod QuantifiedRows
pub mod Slices
-- There is code for every tree.
pub mod Exists
pub mod ExistsStatements
pub mod ExistsProcesses
