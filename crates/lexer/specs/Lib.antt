pub mod Meanings
pub mod Scanning
pub mod Tokens
