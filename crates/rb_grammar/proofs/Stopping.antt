-- Where the machine stops: the first token with which no text of the grammar goes on.
pub mod GoesOn
pub mod Shortest
pub mod ShortExpressions
pub mod Samples
