pub mod BaseTypes
pub mod Begins
pub mod Children
pub mod Names
pub mod OneType
pub mod PortCount
pub mod Ranked
pub mod Types
