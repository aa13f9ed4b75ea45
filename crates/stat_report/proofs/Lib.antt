pub mod Lingering
