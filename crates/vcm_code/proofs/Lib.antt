pub mod Checked
pub mod Shapes
pub mod CodeNeverStuck
pub mod Copies
pub mod WordTable
