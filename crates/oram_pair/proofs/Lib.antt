pub mod EightBytes
pub mod FrontBytes
pub mod GenerationFields
pub mod Makings
pub mod NewFiles
