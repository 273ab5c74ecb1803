pub mod Spelled
pub mod Rows
pub mod Opening
pub mod Frames
pub mod Marks
