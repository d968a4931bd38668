pub mod Laned
pub mod Ends
pub mod Table
pub mod Searching
