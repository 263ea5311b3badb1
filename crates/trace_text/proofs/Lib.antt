pub mod Words
pub mod Works
