pub mod Arriving
pub mod Places
pub mod Products
pub mod Sends
