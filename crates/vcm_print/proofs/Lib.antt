pub mod Steps
pub mod Joining
pub mod Lines
pub mod Walks
pub mod Whole
