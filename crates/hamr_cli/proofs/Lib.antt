pub mod Alls
pub mod DeclarationTrees
pub mod Devices
mod Due
pub mod FeatureTrees
pub mod Instances
pub mod Judged
pub mod LinkMembers
pub mod LinkOrder
pub mod Links
pub mod MemberTrees
pub mod NameLemmas
pub mod One
pub mod PackageTrees
pub mod Pairs
pub mod PartTrees
pub mod Ports
mod Rows
pub mod Runs
mod Served
pub mod Stays
pub mod TraceActs
pub mod TraceDomains
pub mod TraceIntegers
pub mod TraceLines
pub mod TraceLists
pub mod TraceNames
pub mod TraceNumbers
pub mod TracePairs
pub mod TracePortCount
pub mod TracePorts
pub mod TraceReading
pub mod TraceSpots
pub mod TraceValues
pub mod TraceWords
