pub mod FreeBoxes
pub mod Passes
pub mod Meeting
pub mod Firsts
pub mod Found
pub mod Behind
