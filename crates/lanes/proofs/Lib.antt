pub mod Homes
pub mod Extraction
