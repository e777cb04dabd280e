-- Who has ended, and whose lines are released.
pub mod EndsTold
pub mod Finished
pub mod Quiet
pub mod Waited
pub mod Dropped
pub mod Released
pub mod LentAtWork
