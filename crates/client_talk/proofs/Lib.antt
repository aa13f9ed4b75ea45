pub mod Heardings
pub mod Judgings
pub mod Numbered
pub mod Showings
pub mod Standings
pub mod Talkings
