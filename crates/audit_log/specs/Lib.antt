pub mod Entries
pub mod Kept
pub mod Laws
pub mod Log
pub mod Replies
pub mod Rule
pub mod Summaries
