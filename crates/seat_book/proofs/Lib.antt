pub mod Heard
pub mod Offering
pub mod Anew
pub mod Books
pub mod Settled
