pub mod Whole
pub mod Restoring
pub mod Steps
pub mod Marking
pub mod Seen
pub mod Choosing
pub mod Endings
