pub mod ByTables
pub mod Wholes
pub mod Tables
pub mod Openings
pub mod Copies
pub mod ImageLaws
pub mod Branches
pub mod Ranges
