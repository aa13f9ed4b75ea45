pub mod Asked
pub mod Daemon
pub mod Ends
pub mod Serve
pub mod Status
pub mod Terms
pub mod Trial
pub mod TrialEnds
