pub mod Chained
pub mod Kinds
