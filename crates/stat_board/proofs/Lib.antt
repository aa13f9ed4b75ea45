pub mod Adding
pub mod Fronts
pub mod Idle
pub mod Published
pub mod Shows
pub mod Slots
pub mod Told
