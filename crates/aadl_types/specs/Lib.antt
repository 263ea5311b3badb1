pub mod DataRows
pub mod Extents
pub mod Settling
pub mod Shaping
pub mod Types
