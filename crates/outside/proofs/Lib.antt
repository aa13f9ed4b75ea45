mod Bytes
pub mod Told
