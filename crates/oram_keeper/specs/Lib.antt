pub mod Process
pub mod Laws
