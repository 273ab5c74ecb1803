pub mod Carried
pub mod FirstCarried
pub mod Bodies
pub mod Laws
pub mod Samples
pub mod inner
