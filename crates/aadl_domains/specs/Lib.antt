pub mod Components
pub mod Counting
pub mod Roots
pub mod Paths
pub mod Ports
