pub mod Rows
pub mod Moments
pub mod Marks
pub mod Heard
pub mod Kept
pub mod Seats
