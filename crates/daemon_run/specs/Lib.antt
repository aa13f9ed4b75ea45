pub mod Ends
pub mod Gives
pub mod Join
pub mod Work
