-- Code that stands for a tree has at each of its turns the place that is told there.
pub mod TurnsCounted
pub mod QuietCode
pub mod PlacedCode
