-- Entries, acceptances and test lines.
pub mod EntryKeepsErasure
pub mod SameAcceptanceTest
pub mod AcceptanceKeepsErasure
pub mod ArrivalKeepsErasure
pub mod LeavingCuts
pub mod AllOrNoneLeave
pub mod AllLeaveUnseen
pub mod AllLeaveInPlainRun
pub mod LeavingKeepsErasure
