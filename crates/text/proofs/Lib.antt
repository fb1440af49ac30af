pub mod Joined
pub mod Numbers
pub mod Sent
