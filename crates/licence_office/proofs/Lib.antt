pub mod Sets
pub mod Ends
pub mod Dealt
pub mod Ended
pub mod Gates
pub mod Rounds
