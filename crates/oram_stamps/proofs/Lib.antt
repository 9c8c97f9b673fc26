pub mod Spelled
pub mod Notes
pub mod Lives
pub mod OlderFiles
pub mod LifeExample
pub mod RefusalExample
