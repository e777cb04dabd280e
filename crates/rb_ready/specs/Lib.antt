pub mod Receipts
pub mod Readiness
