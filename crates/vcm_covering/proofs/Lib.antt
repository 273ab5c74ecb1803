pub mod Apart
pub mod Safety
