pub mod Prepared
pub mod Ordered
