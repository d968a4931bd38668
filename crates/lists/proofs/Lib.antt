pub mod Header
pub mod Turns
pub mod Checked
