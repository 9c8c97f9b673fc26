pub mod Stamps
pub mod Known
pub mod Note
pub mod Lives
