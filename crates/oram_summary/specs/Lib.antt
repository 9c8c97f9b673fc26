pub mod Contents
pub mod Keys
pub mod Laws
pub mod Sealed
pub mod Sealing
pub mod Stash
pub mod Text
