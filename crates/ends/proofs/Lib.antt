pub mod Naming
pub mod Turns
pub mod Printed
