pub mod Alone
pub mod Behind
pub mod Bounded
pub mod OneMore
pub mod PlacesOrder
pub mod Quiet
pub mod Deep
