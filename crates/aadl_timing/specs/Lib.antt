pub mod Bounds
pub mod Frames
pub mod Limits
pub mod Located
pub mod Naming
pub mod Timings
pub mod Untimed
pub mod Depths
