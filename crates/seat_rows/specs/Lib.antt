pub mod Seats
pub mod Rows
pub mod Beats
