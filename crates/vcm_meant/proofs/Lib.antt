mod Walks
mod Seeing
mod Noting
mod Turned
mod Ordered
mod Once
