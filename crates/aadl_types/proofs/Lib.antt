pub mod Complete
pub mod KnownParts
pub mod Passed
pub mod Settled
pub mod Within
