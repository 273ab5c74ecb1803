mod Stopping
mod Stepping
mod Many
mod Agreeing
