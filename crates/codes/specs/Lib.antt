pub mod Codes
pub mod Fitting
