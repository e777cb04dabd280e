-- What faults in order are, and what the walk that finds them keeps.
pub mod Finding
pub mod InOrder
pub mod Laws
pub mod Memory
pub mod Told
