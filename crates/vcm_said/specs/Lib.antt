pub mod Places
pub mod Polar
pub mod Cases
pub mod Named
pub mod Settings
pub mod Said
pub mod All
pub mod Samples
