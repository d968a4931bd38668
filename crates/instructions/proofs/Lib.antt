pub mod Gathers
pub mod Codes
pub mod Places
