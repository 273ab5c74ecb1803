pub mod Run
pub mod Summaries
pub mod Programs
pub mod Built
pub mod Images
pub mod Laws
pub mod Printed
