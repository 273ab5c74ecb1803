pub mod Backtraced
pub mod Opened
pub mod Chaining
pub mod Ended
pub mod Told
mod Found
