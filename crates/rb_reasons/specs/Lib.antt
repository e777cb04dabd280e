pub mod Names
pub mod Headlines
pub mod Laws
