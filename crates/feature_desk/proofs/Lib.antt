mod Lasts
mod Entered
mod Seated
mod Asked
mod Pairs
mod Splits
mod Ends
pub mod Crossing
