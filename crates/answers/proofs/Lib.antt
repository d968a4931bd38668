pub mod Lengths
pub mod Chosen
pub mod Shown
