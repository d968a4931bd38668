pub mod Table
pub mod Said
pub mod Taken
