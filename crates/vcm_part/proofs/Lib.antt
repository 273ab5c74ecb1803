pub mod Three
pub mod Points
pub mod Rows
pub mod Bytes
pub mod Steps
pub mod Valid
pub mod Refusals
pub mod Answers
