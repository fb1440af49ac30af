pub mod Four
pub mod Put
