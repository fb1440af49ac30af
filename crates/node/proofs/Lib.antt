-- from what the parts did to what the calls give
pub mod Outcomes
-- when no EMCY can be due
pub mod Quiet
