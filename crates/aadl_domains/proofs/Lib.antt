pub mod Members
pub mod Opened
pub mod Rounds
pub mod Spanned
pub mod Ways
