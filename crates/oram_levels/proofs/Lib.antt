pub mod Bodies
pub mod WorkedRows
