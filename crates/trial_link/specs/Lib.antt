pub mod Stages
pub mod Plays
