pub mod Nets
pub mod Worlds
pub mod Sets
pub mod Assignments
pub mod Laws
pub mod Costs
pub mod Shapes
pub mod Faults
