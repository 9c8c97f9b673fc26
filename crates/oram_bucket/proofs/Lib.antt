pub mod KeystreamLemmas
pub mod UniqueEncoding
pub mod Slots
pub mod SlotBySlot
pub mod Decoder
mod Rows
