pub mod Prices
pub mod Account
pub mod InTables
