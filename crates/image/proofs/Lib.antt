pub mod Writes
pub mod Compared
