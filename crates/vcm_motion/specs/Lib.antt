pub mod Faces
pub mod Places
pub mod Laws
pub mod Strips
pub mod inner
