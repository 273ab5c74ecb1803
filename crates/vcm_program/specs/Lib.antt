pub mod Telling
pub mod Titles
pub mod Program
