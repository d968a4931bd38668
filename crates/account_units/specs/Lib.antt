pub mod Lines
pub mod Sections
pub mod InTables
