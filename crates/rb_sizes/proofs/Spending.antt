-- What code, lists and names take in an image at most, against what their tree weighs.
pub mod Spent
pub mod ExpressionCosts
pub mod StatementCosts
pub mod ProcessCosts
pub mod ImageSizes
pub mod NameSizes
