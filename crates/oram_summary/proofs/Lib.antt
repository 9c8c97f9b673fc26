pub mod Decoded
pub mod SealedText
pub mod SealingLaws
pub mod Spelled
pub mod StashText
pub mod WorkedRows
