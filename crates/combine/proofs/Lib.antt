pub mod Turns
pub mod Waiting
pub mod Cutting
pub mod Tied
