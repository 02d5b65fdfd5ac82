pub mod Going
pub mod Advancing
