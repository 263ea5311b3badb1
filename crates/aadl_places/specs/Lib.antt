pub mod BadValues
pub mod ContractAnnexes
pub mod LongQueues
pub mod Notes
pub mod PropertyPlaces
pub mod Sites
