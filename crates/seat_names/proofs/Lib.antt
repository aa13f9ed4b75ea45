pub mod Sorts
pub mod Leading
pub mod Ranks
pub mod Moving
pub mod Testing
pub mod Backing
pub mod Coming
pub mod Dealt
