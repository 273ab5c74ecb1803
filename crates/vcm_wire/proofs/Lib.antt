pub mod Taking
pub mod Heads
pub mod Digits
pub mod FrameLemmas
pub mod Sending
pub mod RequestLemmas
