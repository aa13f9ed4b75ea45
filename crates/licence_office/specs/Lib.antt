pub mod Offices
pub mod Dealing
pub mod Logs
pub mod Rooms
