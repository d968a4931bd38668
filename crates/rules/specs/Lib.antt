pub mod Rules
pub mod Price
