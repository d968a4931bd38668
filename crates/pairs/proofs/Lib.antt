pub mod Tables
pub mod Leading
pub mod May
pub mod InRow
pub mod Seeding
pub mod Steps
