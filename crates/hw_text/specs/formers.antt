pub mod boxed
pub mod rows
