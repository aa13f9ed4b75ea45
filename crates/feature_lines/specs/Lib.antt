pub mod Civil
pub mod Dates
pub mod Line
pub mod Licence
pub mod Steps
pub mod Draft
pub mod Route
pub mod FaultText
