pub mod Standing
pub mod Askers
pub mod Ends
