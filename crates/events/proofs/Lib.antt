pub mod Cut
pub mod Going
pub mod Output
