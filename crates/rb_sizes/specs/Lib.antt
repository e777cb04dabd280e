-- What is said of the sizes of code and images.
pub mod Laws
