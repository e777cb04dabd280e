pub mod Bytes
pub mod Tokens
pub mod Reader
pub mod Cuts
pub mod Gaps
pub mod TokenList
pub mod Laws
