pub mod Conversations
pub mod Reject
pub mod Laws
