pub mod Admission
pub mod Tied
