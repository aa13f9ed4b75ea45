pub mod Closed
pub mod Fresh
pub mod Held
pub mod Played
pub mod Tried
