pub mod Findings
pub mod Summary
pub mod Laws
