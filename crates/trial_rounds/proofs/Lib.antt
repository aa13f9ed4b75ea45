pub mod Clients
pub mod Lines
pub mod Rounds
pub mod Seats
pub mod Sums
