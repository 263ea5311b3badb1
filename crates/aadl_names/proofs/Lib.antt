pub mod LastThat
pub mod PlaceOrder
pub mod SameNames
pub mod Twice
pub mod KeyPlaces
pub mod Walked
