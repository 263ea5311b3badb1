pub mod Labels
pub mod Loops
pub mod Met
