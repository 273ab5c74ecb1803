pub mod Adding
pub mod Collecting
pub mod Pivots
pub mod Seeing
pub mod Sizes
pub mod Untouched
pub mod Stepping
