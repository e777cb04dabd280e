pub mod Last
pub mod Lines
