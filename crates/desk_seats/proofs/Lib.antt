pub mod Views
pub mod Goings
mod Lists
mod Comes
mod Gathers
