pub mod Tabling
pub mod Titled
pub mod Reaching
