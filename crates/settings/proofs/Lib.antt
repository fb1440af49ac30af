pub mod Changed
pub mod Alike
