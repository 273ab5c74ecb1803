pub mod Whole
pub mod WayBack
pub mod Fitted
pub mod Nearness
pub mod Descent
