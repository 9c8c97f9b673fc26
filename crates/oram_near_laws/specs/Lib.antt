pub mod BesideLevels
pub mod NextProcess
pub mod Example
