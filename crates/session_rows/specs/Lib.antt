pub mod Books
pub mod Office
pub mod Turns
