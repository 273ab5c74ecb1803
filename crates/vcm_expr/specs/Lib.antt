pub mod Source
pub mod Typing
pub mod Digits
pub mod Symbols
pub mod Grammar
pub mod Parser
pub mod Parsing
pub mod inner
