pub mod Account
pub mod Glances
