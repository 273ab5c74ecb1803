pub mod Fields
pub mod EachField
pub mod NamedPlaces
pub mod Shifting
pub mod Calling
pub mod Declaring
pub mod Answering
