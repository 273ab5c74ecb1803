pub mod Layouts
pub mod Strips
