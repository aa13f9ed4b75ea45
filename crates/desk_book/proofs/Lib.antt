mod Steps
mod Logs
mod Notes
pub mod Askers
pub mod Closings
mod Pairs
pub mod Crossing
