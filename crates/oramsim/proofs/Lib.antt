pub mod FirstField
pub mod Numbers
pub mod FirstLine
pub mod Whole
pub mod Turns
pub mod Faithful
pub mod HostAnswers
pub mod Drained
pub mod Interference
pub mod Reopened
pub mod Obeyed
pub mod Formatted
pub mod Started
pub mod Clean
pub mod Progress
pub mod GivenUp
pub mod Cut
mod Rows
