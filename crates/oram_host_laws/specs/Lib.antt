pub mod Honest
pub mod HostRecords
pub mod AnyHost
pub mod Law
