pub mod Fit
pub mod Numbers
