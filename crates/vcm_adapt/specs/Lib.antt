pub mod Marks
pub mod Adapted
pub mod Laws
pub mod Read
pub mod Choices
