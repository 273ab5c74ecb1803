pub mod Events
pub mod Datums
pub mod Joined
pub mod Spots
pub mod Unknown
