pub mod Alphabet
pub mod AxleMarks
pub mod Bytes
pub mod Laws
pub mod Readings
pub mod Spelling
