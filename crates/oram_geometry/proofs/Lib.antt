pub mod Least
pub mod DeviceSizes
pub mod Meet
pub mod Nodes
pub mod Ranges
pub mod Rows
