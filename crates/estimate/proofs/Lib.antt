pub mod Finding
pub mod Definitions
pub mod Readers
pub mod Estimates
