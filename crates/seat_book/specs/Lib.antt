pub mod Beats
pub mod Charges
pub mod Books
pub mod Parts
