-- Definitions that private contracts name.
pub mod Knowing
