pub mod Freed
pub mod Nearest
pub mod Stepping
pub mod Unmet
