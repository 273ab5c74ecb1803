pub mod Rows
pub mod Bodies
pub mod Capitals
pub mod Answers
pub mod Examples
