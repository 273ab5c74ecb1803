pub mod OneFault
pub mod TextLines
pub mod Turns
