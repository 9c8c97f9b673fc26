pub mod Words
pub mod Formatted
pub mod Looped
pub mod CoreSteps
pub mod Exchanged
pub mod Resumed
pub mod Turned
pub mod Served
pub mod Honesty
mod Rows
