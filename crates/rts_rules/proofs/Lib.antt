pub mod Changes
pub mod Openings
pub mod Queues
pub mod Steps
