-- How deep the functions call one another before a token is taken.
pub mod Measures
-- How many tokens are left.
pub mod Shorter
-- What a function hands on that ends in a call.
pub mod Handed
pub mod Closing
-- What is left of a list before and behind an entry.
pub mod Lists
-- Each text has one verdict, and what the parser answers is this one.
pub mod Judged
pub mod Splits
pub mod Verdicts
