pub mod Leaves
pub mod Agreeing
