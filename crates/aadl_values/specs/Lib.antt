pub mod Columns
pub mod Distinct
pub mod Layers
pub mod Spellings
pub mod Times
