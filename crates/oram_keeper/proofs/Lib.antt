pub mod Texts
pub mod ReadBack
pub mod Told
pub mod Found
