pub mod Words
pub mod Texts
pub mod Programs
pub mod Summary
pub mod Judging
pub mod Laws
pub mod Lasting
