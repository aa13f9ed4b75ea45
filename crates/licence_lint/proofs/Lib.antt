pub mod Completing
pub mod Hearing
pub mod Linting
pub mod Matching
