pub mod Asked
pub mod Days
pub mod Lint
pub mod Status
pub mod Words
