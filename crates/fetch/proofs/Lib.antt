pub mod Tuples
pub mod Standing
pub mod Fetching
