pub mod Map
pub mod Check
pub mod Inner
pub mod Children
pub mod Accepts
