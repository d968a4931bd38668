pub mod Direct
pub mod Reaching
pub mod Columns
pub mod Defining
pub mod Steps
pub mod Declared
