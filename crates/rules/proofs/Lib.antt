-- what the state rules give, and what a call that is not refused may count on
pub mod Fits
pub mod Rows
pub mod Accepted
