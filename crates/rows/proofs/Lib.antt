pub mod Distances
pub mod Firsts
pub mod Members
pub mod Questions
pub mod Words
pub mod Written
