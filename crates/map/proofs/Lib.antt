pub mod Laws
pub mod Facts
pub mod Parts
pub mod Answers
pub mod Codes
pub mod Described
