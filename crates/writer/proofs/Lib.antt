pub mod Refused
pub mod Part
pub mod Widths
pub mod Run
pub mod Whole
pub mod Filled
pub mod Alls
