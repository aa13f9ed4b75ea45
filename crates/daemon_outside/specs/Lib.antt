pub mod Doors
pub mod Memory
pub mod Sites
