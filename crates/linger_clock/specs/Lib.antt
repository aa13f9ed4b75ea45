pub mod Deadlines
pub mod Kept
pub mod Ranks
pub mod Tree
