pub mod FormattedWith
pub mod NearLevels
pub mod PathBodies
pub mod SameBytes
pub mod Told
