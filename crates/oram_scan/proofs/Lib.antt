pub mod Scans
pub mod Findings
pub mod Example
pub mod Images
