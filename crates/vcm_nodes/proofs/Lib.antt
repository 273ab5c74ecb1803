pub mod Jumping
pub mod SameNames
pub mod Entering
pub mod JumpSteps
pub mod CaseSteps
