pub mod Open
pub mod Serve
