pub mod Appended
pub mod Noting
pub mod Putting
pub mod Signed
