pub mod Over
pub mod Known
