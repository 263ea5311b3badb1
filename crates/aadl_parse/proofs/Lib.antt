mod Annexes
mod Flawless
mod OneSymbols
pub mod PrintedLaw
mod QuantityReads
mod Repeats
pub mod Respelled
pub mod RespelledComponents
pub mod RespelledDeclarations
pub mod RespelledKinds
pub mod RespelledLists
pub mod RespelledMembers
pub mod RespelledNames
pub mod RespelledPackages
pub mod RespelledTypes
pub mod RespelledValues
mod Sections
mod Sequences
mod SomeOf
mod Spelling
mod Steps
mod ThreeParts
mod ValueReads
pub mod WholeModels
