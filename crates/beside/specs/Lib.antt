pub mod Same
pub mod Beside
