pub mod Content
pub mod State
pub mod Faults
pub mod Edits
pub mod Access
pub mod Format
pub mod Subtree
pub mod Parts
