pub mod Judged
pub mod Stretches
pub mod Parted
pub mod Laws
pub mod Samples
pub mod inner
