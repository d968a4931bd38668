pub mod Facts
pub mod Places
pub mod Tied
pub mod Filled
