pub mod Meant
pub mod Next
pub mod Rows
