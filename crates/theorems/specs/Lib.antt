pub mod Memory
pub mod Units
pub mod Steps
pub mod Machine
pub mod Footprint
