pub mod Climbs
pub mod Ends
pub mod Found
pub mod Lookups
pub mod Runs
pub mod Steps
