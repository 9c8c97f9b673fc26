pub mod Lives
pub mod KeptCommands
pub mod Replied
pub mod LivesExample
pub mod WholeExample
