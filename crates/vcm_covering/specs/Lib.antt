pub mod Parting
pub mod Covering
pub mod Safety
