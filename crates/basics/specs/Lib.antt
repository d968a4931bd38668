pub mod Choice
pub mod Lists
pub mod Counting
pub mod Sets
