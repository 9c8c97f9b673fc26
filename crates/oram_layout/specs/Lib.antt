pub mod Limits
pub mod Trees
pub mod Records
pub mod Header
pub mod BucketFile
pub mod Changes
pub mod Fronts
pub mod Laws
