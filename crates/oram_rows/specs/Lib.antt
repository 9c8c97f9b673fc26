pub mod Rows
pub mod RowsLink
pub mod BatchExchanges
pub mod Law
pub mod Examples
