-- What is said of what a process can recover.
pub mod Places
pub mod Contents
pub mod Touched
pub mod Inside
pub mod Views
pub mod Marks
