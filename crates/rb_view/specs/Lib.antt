-- What is said of the trace that a machine writes.
pub mod Asking
pub mod Laws
pub mod Noting
pub mod Steady
