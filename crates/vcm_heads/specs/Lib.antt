pub mod Steps
pub mod Heads
pub mod Rows
