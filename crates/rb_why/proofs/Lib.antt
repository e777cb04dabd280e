pub mod Standing
pub mod Telling
pub mod Listing
pub mod Habitual
pub mod Framing
pub mod Declaring
