pub mod Appended
pub mod Counted
pub mod Naming
pub mod CommandLine
pub mod ViewLine
pub mod Digits
pub mod Joining
