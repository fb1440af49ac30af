pub mod Numbers
pub mod Puts
pub mod Signed
pub mod Lay
