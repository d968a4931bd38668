pub mod Plain
pub mod Chosen
