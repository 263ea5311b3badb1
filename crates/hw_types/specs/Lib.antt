pub mod CWords
pub mod Count
pub mod Extent
pub mod Fault
pub mod Layout
pub mod Scalar
pub mod Shape
pub mod Value
