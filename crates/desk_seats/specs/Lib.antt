pub mod Views
pub mod Passes
pub mod Kinds
pub mod Turns
pub mod Taken
