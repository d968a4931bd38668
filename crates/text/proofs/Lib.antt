pub mod Putting
pub mod Spelling
pub mod ReadBack
