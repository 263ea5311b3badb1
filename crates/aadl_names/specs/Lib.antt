pub mod Counting
pub mod Indexed
pub mod Keys
pub mod Meanings
pub mod Offences
pub mod Parts
pub mod TableRows
