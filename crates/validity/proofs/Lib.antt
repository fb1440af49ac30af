pub mod Alike
pub mod Byte
