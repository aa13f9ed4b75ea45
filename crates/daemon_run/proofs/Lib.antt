pub mod Dealing
mod Ending
pub mod Joining
pub mod Splitting
pub mod Unserved
