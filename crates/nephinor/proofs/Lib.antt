pub mod Unpacked
pub mod Whole
pub mod Determined
pub mod Answers
pub mod Tables
