pub mod Rosters
pub mod Places
pub mod Marks
