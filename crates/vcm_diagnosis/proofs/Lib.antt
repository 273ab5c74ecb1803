pub mod Nearest
pub mod Refused
