pub mod Encoding
pub mod Header
