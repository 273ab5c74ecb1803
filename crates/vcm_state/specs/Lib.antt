pub mod Held
pub mod Carried
