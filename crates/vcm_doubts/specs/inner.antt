-- Definitions that private contracts name.
pub mod Readers
pub mod Instead
