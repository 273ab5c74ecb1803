pub mod Near
pub mod Judged
pub mod Told
pub mod Laws
pub mod inner
