-- Which code stands for a tree, and that it agrees with the meaning.
pub mod Template
pub mod Slots
pub mod Places
pub mod Forms
pub mod StandsFor
pub mod Operands
pub mod RoomInTree
pub mod Laws
pub mod OneCode
