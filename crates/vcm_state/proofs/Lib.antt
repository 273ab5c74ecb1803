pub mod Places
pub mod Moves
pub mod Values
pub mod Measured
pub mod Framed
pub mod Lines
pub mod Changes
