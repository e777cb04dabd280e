pub mod Drawing
pub mod Entrance
pub mod Explored
pub mod Faulted
pub mod Traced
pub mod Wished
