pub mod Completing
pub mod Ending
pub mod Hearing
pub mod Ranging
pub mod Reached
pub mod ServeWords
pub mod TrialEnding
