pub mod Nodes
pub mod Overwritten
pub mod Paths
pub mod Records
pub mod Hosts
pub mod ImageTexts
pub mod Rows
pub mod Swapped
pub mod RisingEntries
pub mod FieldReads
pub mod ReadImages
pub mod LoadedHosts
pub mod Flipped
pub mod ExactImages
pub mod Transfers
pub mod Answered
mod Connections
