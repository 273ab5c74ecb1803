pub mod Found
pub mod Ended
pub mod Same
