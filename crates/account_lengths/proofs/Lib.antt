pub mod Short
pub mod Names
pub mod Statements
pub mod Instructions
pub mod Account
