pub mod Approaches
pub mod Causes
pub mod Framed
pub mod Hints
pub mod Reasons
pub mod Telling
pub mod inner
