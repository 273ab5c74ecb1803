pub mod Taking
pub mod Stepping
pub mod Looking
pub mod Rooms
pub mod Exchanges
pub mod KeptLines
pub mod ServedLines
