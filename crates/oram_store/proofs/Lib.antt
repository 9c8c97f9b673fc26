pub mod Recovery
pub mod Lives
pub mod GroupRuns
mod NewFiles
pub mod Close
pub mod Crashes
pub mod Outcomes
pub mod Allowed
pub mod Sound
pub mod Identity
pub mod Levels
mod CellReads
pub mod BatchBytes
pub mod GroupBytes
pub mod Fronts
pub mod CommittedPuts
pub mod ServedBy
pub mod Served
pub mod MessagesServed
pub mod Together
pub mod AddedRecords
pub mod Puts
pub mod AddedTrees
pub mod Responses
pub mod RowBytes
pub mod RowsServed
mod WorkedRows
pub mod FirstGroup
pub mod Openings
pub mod Reopened
