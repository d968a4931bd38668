pub mod Turns
pub mod Loads
pub mod After
pub mod Again
pub mod Calls
