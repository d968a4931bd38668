pub mod Promises
pub mod Plain
