pub mod Endings
pub mod Gathering
pub mod Numbered
