pub mod Parsing
pub mod Replies
pub mod Reading
pub mod Laws
