pub mod Counts
pub mod Pieces
pub mod Subtrees
pub mod Joined
pub mod Collected
pub mod Fixed
pub mod TreePaths
pub mod CollectedAll
pub mod Example
pub mod Made
mod Rows
