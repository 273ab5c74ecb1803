pub mod Members
pub mod Reading
pub mod Told
pub mod Same
