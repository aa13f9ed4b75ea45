pub mod Names
mod Reading
