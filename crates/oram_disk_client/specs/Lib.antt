pub mod Faults
pub mod FormattedWith
pub mod HostAsked
pub mod HostFaults
pub mod Sealers
pub mod Serving
pub mod Reading
pub mod Formatting
