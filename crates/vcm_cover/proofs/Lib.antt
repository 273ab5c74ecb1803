pub mod Wholes
pub mod Ways
pub mod Settled
pub mod Straight
pub mod Rooms
