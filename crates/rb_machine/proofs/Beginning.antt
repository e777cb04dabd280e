-- A machine that was loaded, and its turns one after another.
pub mod ExecutableCode
pub mod FirstProcesses
pub mod Opens
pub mod MachineRuns
