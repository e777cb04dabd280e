-- Slots beside a kind's messages; changes that leave all messages in their slots; a send; the invariant; whole runs.
pub mod UnderSlots
pub mod SlotsKept
pub mod SlotsRead
pub mod SlotsHold
pub mod SlotsSteps
pub mod SlotsStand
pub mod SlotsInvariant
pub mod SlotsTheorem
