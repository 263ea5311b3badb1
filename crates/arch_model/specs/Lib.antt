pub mod Arch
pub mod BaseTypes
pub mod LookUp
pub mod Receivers
pub mod TypeTable
pub mod Types
pub mod Usage
pub mod Values
