pub mod Pages
pub mod Nothing
pub mod Texts
