pub mod Fits
pub mod Scheduling
pub mod Tables
pub mod Scheduled
pub mod Filled
pub mod Ordering
