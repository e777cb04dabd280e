pub mod Reading
pub mod Driving
pub mod Answering
pub mod Complete
pub mod Behind
pub mod Ends
pub mod Limits
