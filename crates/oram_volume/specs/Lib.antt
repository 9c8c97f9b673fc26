pub mod Blocks
pub mod Parts
pub mod RangeCommands
pub mod HeldArrays
pub mod CarriedOut
pub mod DiskCalls
pub mod NextProcess
pub mod Examples
