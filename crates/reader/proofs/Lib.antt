pub mod Numbers
pub mod Operands
pub mod Counts
pub mod Records
pub mod Next
pub mod Turns
pub mod Extents
pub mod Blocks
