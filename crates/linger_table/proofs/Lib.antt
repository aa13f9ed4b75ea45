pub mod Deadlines
pub mod Entries
pub mod Places
pub mod Firsts
pub mod Ties
pub mod Packs
pub mod Seen
