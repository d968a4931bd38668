pub mod Lines
pub mod Sentences
