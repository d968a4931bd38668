pub mod Comparison
pub mod Running
pub mod Shown
pub mod Determined
