pub mod Texts
pub mod Tests
pub mod Puts
pub mod Counted
pub mod Compared
pub mod Laws
pub mod Samples
