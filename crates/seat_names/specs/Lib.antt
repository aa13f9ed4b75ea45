pub mod Turns
pub mod Ways
