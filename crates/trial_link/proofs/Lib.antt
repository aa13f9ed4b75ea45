pub mod Notes
mod Playing
