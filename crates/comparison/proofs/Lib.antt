pub mod Numbers
pub mod Chosen
pub mod Filled
pub mod Parts
pub mod Lengths
pub mod SameLines
pub mod NoMark
pub mod Worked
