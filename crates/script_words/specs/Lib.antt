pub mod Fields
pub mod Firsts
pub mod Texts
