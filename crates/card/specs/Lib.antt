pub mod Registers
pub mod Step
