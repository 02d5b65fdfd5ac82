pub mod Filling
pub mod Given
pub mod Answers
pub mod Meaning
pub mod Marks
