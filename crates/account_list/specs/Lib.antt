pub mod Instructions
pub mod Shown
