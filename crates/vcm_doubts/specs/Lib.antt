pub mod Spellings
pub mod Doubts
pub mod Readings
pub mod Laws
pub mod Settled
pub mod inner
