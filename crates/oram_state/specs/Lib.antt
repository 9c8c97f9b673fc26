pub mod StateBytes
pub mod WellSized
pub mod Parser
pub mod DecodedCore
pub mod AroundTable
