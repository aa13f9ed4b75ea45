pub mod Prefixes
pub mod LineTexts
pub mod Tokens
