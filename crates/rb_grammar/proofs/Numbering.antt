-- Names, recovery blocks and places of a tree, in the order of the text.
pub mod Steps
pub mod Ordered
pub mod Mixed
pub mod Numbered
pub mod Rising
pub mod Travels
