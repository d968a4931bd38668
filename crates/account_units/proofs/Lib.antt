pub mod Telling
pub mod Turns
pub mod Listing
pub mod OfPairs
pub mod OfUnits
pub mod Printed
pub mod Lengths
pub mod OfBlock
