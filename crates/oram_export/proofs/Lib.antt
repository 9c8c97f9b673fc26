pub mod Counting
pub mod Staging
pub mod Levels
pub mod Imaging
pub mod Asked
pub mod WholeTrees
pub mod Exporting
mod Backups
pub mod Example
