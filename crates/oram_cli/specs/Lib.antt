pub mod FileFaults
pub mod CommandLine
pub mod Tables
pub mod Sockets
