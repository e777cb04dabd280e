pub mod Alike
pub mod Stuck
pub mod Survey
pub mod Wanted
pub mod Programs
pub mod AsTold
pub mod Laws
pub mod Rows
