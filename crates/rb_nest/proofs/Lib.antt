pub mod Accepted
pub mod FirstFaults
