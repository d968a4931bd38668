pub mod Choosing
pub mod Telling
pub mod OfBlock
