pub mod Slots
pub mod Said
pub mod Records
pub mod Lines
pub mod Texts
