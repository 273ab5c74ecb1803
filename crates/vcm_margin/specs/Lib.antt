pub mod Alike
pub mod Margin
pub mod Laws
pub mod Printed
pub mod Backtrace
pub mod inner
