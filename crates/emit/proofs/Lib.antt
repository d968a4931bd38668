pub mod Columns
pub mod Storing
pub mod Packs
pub mod Singles
pub mod Units
pub mod Prices
pub mod End
