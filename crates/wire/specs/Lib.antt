pub mod Put
pub mod Laid
