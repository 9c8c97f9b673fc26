pub mod Sends
pub mod Lives
pub mod TwoLives
pub mod KeptCommands
pub mod Replied
pub mod FetchedPath
pub mod NoPair
pub mod WholeCommand
