pub mod CommandLine
pub mod Settings
pub mod Faults
pub mod LibraryFaults
pub mod Endings
pub mod ImageFaults
pub mod Formatting
pub mod FrameLoop
