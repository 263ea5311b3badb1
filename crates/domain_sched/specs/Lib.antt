pub mod Multiples
pub mod Schedule
pub mod Slots
