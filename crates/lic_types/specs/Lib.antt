pub mod Days
pub mod Groups
pub mod Name
pub mod NameRoom
pub mod NameSets
pub mod Version
