pub mod Steps
pub mod Fields
