pub mod Codes
pub mod Words
