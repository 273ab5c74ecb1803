-- Definitions that private contracts name.
pub mod Reaching
pub mod Making
