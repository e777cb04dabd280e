pub mod Asked
pub mod Explained
pub mod Held
pub mod Products
pub mod Requests
pub mod Written
