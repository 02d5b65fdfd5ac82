pub mod Export
pub mod Inner
