pub mod Spaced
pub mod Written
pub mod Waiting
pub mod Released
pub mod Events
pub mod Ended
pub mod Counted
pub mod Lying
