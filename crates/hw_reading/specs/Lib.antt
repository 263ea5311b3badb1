pub mod Brackets
pub mod Lexed
pub mod Lists
pub mod Refusing
pub mod Shapes
