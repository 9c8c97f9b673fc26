pub mod Numbers
pub mod Rows
pub mod Streams
pub mod Transfers
