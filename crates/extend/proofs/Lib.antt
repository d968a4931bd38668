pub mod Readers
pub mod Visiting
