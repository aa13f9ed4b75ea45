pub mod Sitters
pub mod Standing
pub mod Sittings
pub mod Seatings
pub mod Closings
pub mod Rooms
