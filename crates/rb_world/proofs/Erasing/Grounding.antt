-- What is known of each process and conversation alone.
pub mod GroundedFacts
pub mod GroundedWorlds
pub mod Grounded
