pub mod Evicted
pub mod Content
pub mod Gathered
pub mod Sealed
pub mod Rewrites
pub mod Prepared
pub mod Puts
pub mod Grown
pub mod Formed
mod Rows
