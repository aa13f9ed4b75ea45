pub mod Advice
pub mod Cuts
pub mod Finds
pub mod Order
pub mod Pools
pub mod Text
