pub mod Answers
pub mod Next
