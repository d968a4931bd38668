pub mod Read
pub mod Sized
