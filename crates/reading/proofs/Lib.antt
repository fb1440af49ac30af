pub mod Halves
pub mod Patterns
pub mod Magnitude
pub mod Bounds
pub mod Finite
pub mod Ranges
pub mod Twos
