mod Arguments
mod NearRecords
mod Tables
pub mod Program
pub mod Requested
pub mod Units
mod Reports
mod Rows
