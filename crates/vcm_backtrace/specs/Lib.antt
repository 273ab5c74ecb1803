pub mod Sources
pub mod Calls
pub mod Loops
pub mod Standing
pub mod Backtrace
pub mod Laws
