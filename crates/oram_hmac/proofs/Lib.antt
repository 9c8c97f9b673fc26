pub mod SameBytes
pub mod TagsApart
pub mod TestVectors
pub mod WorkedRows
