-- What is known of each process of a run of a nested program.
pub mod KnownOfProcess
pub mod KnownFacts
pub mod KnownIsKept
pub mod AlternatesTriedTogether
pub mod MembersGoTogether
pub mod RejectionsStayInside
pub mod FewEventsOfTurns
