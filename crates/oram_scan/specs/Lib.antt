pub mod Scan
pub mod Laws
pub mod Blocks
