pub mod Naming
pub mod Lines
pub mod Ending
pub mod Fitting
pub mod Ended
pub mod Report
