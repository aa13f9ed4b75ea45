pub mod Counted
pub mod Counts
pub mod Events
pub mod Replayed
pub mod Requests
pub mod Terms
