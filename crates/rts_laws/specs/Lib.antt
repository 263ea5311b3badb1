pub mod Arrivals
pub mod Parts
pub mod Sending
