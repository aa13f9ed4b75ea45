pub mod Loops
pub mod Counted
pub mod Effects
