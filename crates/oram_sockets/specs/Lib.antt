pub mod Connections
pub mod Duplex
