-- Where instructions lead.
pub mod Flow
pub mod Stacks
pub mod Blocks
pub mod Held
pub mod Ways
pub mod Shapes
pub mod Ends
pub mod Laws
