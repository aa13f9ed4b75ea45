pub mod Passes
pub mod Rule
pub mod Moves
pub mod Steps
pub mod Sorts
pub mod Laws
