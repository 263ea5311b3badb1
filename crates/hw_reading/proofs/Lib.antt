pub mod OpenBrackets
pub mod Choices
pub mod Lists
pub mod Runs
pub mod Shapes
pub mod Steps
pub mod Written
