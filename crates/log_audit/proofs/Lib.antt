pub mod Grants
pub mod Judged
pub mod Lines
pub mod Openings
pub mod Pools
pub mod Sets
pub mod Usages
