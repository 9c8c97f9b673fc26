pub mod Fronts
pub mod Generations
pub mod Faults
pub mod Matching
pub mod Filling
pub mod Leftovers
pub mod Notes
pub mod Making
