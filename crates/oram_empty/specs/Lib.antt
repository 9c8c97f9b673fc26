pub mod EmptyRecords
pub mod SubtreePaths
pub mod KeptDigests
pub mod Collecting
pub mod Laws
