mod Leads
mod Lines
mod Steps
mod Agreeing
