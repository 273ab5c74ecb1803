-- Definitions that private contracts name.
pub mod Readers
pub mod Full
pub mod Runs
