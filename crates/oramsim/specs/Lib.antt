pub mod Lines
pub mod Printer
pub mod Script
pub mod Correspondence
