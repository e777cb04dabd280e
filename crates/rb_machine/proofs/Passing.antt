-- Messages and their counts.
pub mod CountedAtWork
pub mod ChannelsLooked
pub mod Receivers
