pub mod Pairs
pub mod Places
pub mod Spellings
