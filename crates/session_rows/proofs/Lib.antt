pub mod Stepping
pub mod Entered
