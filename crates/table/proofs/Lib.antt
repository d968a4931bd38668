pub mod Rows
pub mod Filled
pub mod Back
pub mod Alike
