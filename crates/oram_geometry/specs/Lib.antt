pub mod Least
pub mod Sizes
pub mod Path
pub mod Measures
