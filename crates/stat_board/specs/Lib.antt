pub mod Counted
pub mod Fronts
pub mod Rule
pub mod Sharing
pub mod Shows
pub mod OneSeat
