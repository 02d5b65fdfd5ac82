pub mod Starts
pub mod Answers
pub mod Meaning
