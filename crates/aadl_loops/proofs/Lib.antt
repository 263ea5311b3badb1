pub mod Marks
pub mod Searched
pub mod Falls
pub mod Ways
