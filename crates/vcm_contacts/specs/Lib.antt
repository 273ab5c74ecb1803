pub mod Leading
pub mod Passing
pub mod Noted
pub mod Printed
pub mod Samples
pub mod Collecting
pub mod Laws
pub mod inner
