pub mod Runs
pub mod ResentStores
pub mod Streamed
pub mod Repair
pub mod Overlay
pub mod Examples
