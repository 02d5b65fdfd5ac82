pub mod Flips
pub mod Listed
pub mod Choices
pub mod Fronts
