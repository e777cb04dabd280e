-- The code of a tree, walked form by form.
pub mod Laid
pub mod Walked
pub mod Ways
pub mod ExpressionWalks
pub mod FormWalks
pub mod StatementWalks
pub mod ProcessWalks
pub mod WholeWalk
