pub mod Datums
pub mod Dated
