pub mod Searches
pub mod Walking
pub mod Turns
pub mod Words
pub mod Members
pub mod Taking
pub mod Dissolving
pub mod Steps
