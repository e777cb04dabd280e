-- What is said of the code of accepted sources.
pub mod Laws
pub mod Prepared
pub mod SoundCode
