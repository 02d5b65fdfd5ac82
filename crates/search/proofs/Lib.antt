pub mod Answers
pub mod Passed
pub mod Runs
pub mod Endings
pub mod First
