pub mod JobLines
pub mod CutJobs
pub mod UnreadLemmas
pub mod JobLemmas
pub mod InputLemmas
pub mod ListLemmas
pub mod DebugLemmas
pub mod Answering
pub mod Told
pub mod RunAnswers
pub mod FileAnswers
pub mod ListAnswers
pub mod ViewLemmas
pub mod OneView
mod GivenLemmas
