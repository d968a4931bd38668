pub mod Input
pub mod Lines
pub mod Compared
pub mod Alike
