pub mod Widths
pub mod Fields
pub mod Spelling
pub mod Readers
pub mod inner
